-- Steps says what a step is and does; the rest are laws, and where the code takes a step.
pub mod Steps
pub mod Forms
pub mod AtStep
