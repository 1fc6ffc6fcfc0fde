-- Lists of rows: each account once, rows that ascend, and those that pass a test.
pub mod AccountsApart
pub mod AllAccounts
pub mod Dead
pub mod Rising
