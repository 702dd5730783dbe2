pub mod DictCells
