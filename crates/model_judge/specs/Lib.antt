-- What judging a model is proved by. No promise to a caller of the unit rests on these definitions.
pub mod Checked
