-- A counter's table is a lawful meaning of runs.
use Rattle.counters.specs.Tables.{Table, Lawful}
use Rattle.rows.specs.Meanings as meanings

pub lawful_meaning : (table : Table) → Lawful table → meanings.Lawful table
lawful_meaning table laws = record { amounts = laws.amounts; above = laws.above }
