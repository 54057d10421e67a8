pub mod AnswersLaws
pub mod ConditionsLaws
pub mod OutcomeLaws
