mod Facts
mod RowFacts
