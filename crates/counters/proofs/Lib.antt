mod Lines
mod Looks
mod PriceRows
mod Yields
