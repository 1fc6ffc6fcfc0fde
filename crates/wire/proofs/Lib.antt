pub mod BalancesAgain
pub mod AnswersAgain
pub mod SweptText
pub mod ContentsAgain
pub mod AllowancesAgain
pub mod RedeemedAgain
pub mod SaidBodies
pub mod SaidTexts
