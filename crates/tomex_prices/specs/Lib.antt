-- Definitions that contracts cite: the values of a price for which a row stays on the front, how wrong all prices may
-- be, the laws of both, and the table of a study's prices.
pub mod Price
pub mod Interval
pub mod Laws
pub mod Repriced
pub mod Studies
pub mod Prices
pub mod PriceLaws
pub mod Percent
pub mod AllPrices
pub mod Together
pub mod PricesTable
pub mod PricesCsv
