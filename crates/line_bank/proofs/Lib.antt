pub mod BankLaws
pub mod LastNumberLaws
