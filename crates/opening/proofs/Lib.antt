pub mod RedoLaws
pub mod SurveyLaws
pub mod SurveyedLaws
pub mod InsertLaws
pub mod WaitLaws
pub mod PlacesLaws
