-- The tables of a basket and of a price list.
use Rattle.counters.specs.declared.basket.Basket.{Basket}
use Rattle.counters.specs.declared.prices.Prices.{Prices}
use Rattle.counters.specs.Tables.{Table}
use Rattle.counters.specs.Baskets.{basket_table}
use Rattle.counters.specs.PriceLists.{price_table}

-- A basket means the lines that it holds.
abbrev pub of_basket : Basket → Table
of_basket basket = basket_table basket.lines.items

-- A price list means the rows that it holds.
abbrev pub of_prices : Prices → Table
of_prices prices = price_table prices.rows.items
