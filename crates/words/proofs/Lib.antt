mod EndZeros
mod TextFacts
mod TextOrder
