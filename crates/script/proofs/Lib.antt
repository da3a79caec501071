mod Decimal
mod Taken
