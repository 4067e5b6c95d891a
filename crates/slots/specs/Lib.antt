-- `Area`: the working area of judging a model. `Marks`: what was learned of entries, and the slots of rows; on these no promise to a caller of
-- the unit rests.
pub mod Area
pub mod Marks
