-- The tables of a basket and of a price list are lawful.
use Rattle.counters.specs.declared.basket.Basket.{Basket}
use Rattle.counters.specs.declared.prices.Prices.{Prices}
use Rattle.counters.specs.Tables.{Lawful}
use Rattle.counters.specs.Meanings.{of_basket, of_prices}
use Rattle.counters.specs.LawfulBaskets.{basket_lawful}
use Rattle.counters.specs.LawfulPrices.{prices_lawful}

pub basket_laws : (basket : Basket) → Lawful (of_basket basket)
basket_laws b = basket_lawful b.lines.items b.lawful

pub prices_laws : (prices : Prices) → Lawful (of_prices prices)
prices_laws p = prices_lawful p.rows.items p.lawful
