-- The rows of a term stand for it and keep the laws of tables.
use Rattle.std.proofs.Common.{arith}
use Rattle.theory.specs.Emit.{empty}
use Rattle.theory.specs.Theorems.{RowsStand, RowsLawful}
use Rattle.theory.proofs.Standing as standing
use Rattle.theory.proofs.Lawful.{rows_kept, types_some}
use Rattle.theory.proofs.Uses.{rows_once}

pub rows_stand : RowsStand
rows_stand e = record { stands = standing.rows_stand e; last = standing.laid_last e empty }

pub rows_lawful : RowsLawful 1024 2048 999999999
rows_lawful e small types terms =
    let k = rows_kept e small in
    let some = types_some e in
    let last = standing.laid_last e empty in
    record { type_count = (omega arith, types); term_count = (omega arith, terms); first = k.first; later = k.later; apart = k.apart; rows = k.rows; once = rows_once e }
