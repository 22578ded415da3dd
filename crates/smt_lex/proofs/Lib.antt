pub mod FactLemmas
pub mod GapLemmas
pub mod KindLemmas
pub mod PrefixLemmas
pub mod RefusedLemmas
pub mod SpellsLemmas
pub mod TableLemmas
pub mod TokensLemmas
