pub mod FieldLemmas
pub mod DigitLemmas
pub mod MomentLemmas
pub mod ConfigLemmas
pub mod RowLemmas
pub mod DataLemmas
pub mod OneMeaning
