-- In the order of reading. Lines and Parts say what lines are; the rest no promise needs: how the code sees lines, and what soundness says
-- of them.
pub mod Lines
pub mod Parts
pub mod Views
pub mod Formed
pub mod Truth
pub mod Naming
