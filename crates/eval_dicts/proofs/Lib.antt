pub mod DictLemmas
