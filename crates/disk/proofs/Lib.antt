pub mod AlikeLaws
pub mod BlockLaws
pub mod CallLaws
pub mod LineLaws
pub mod StepLaws
