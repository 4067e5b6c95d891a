-- In the order of reading; Table and RuleLaws are laws.
pub mod Sides
pub mod Rules
pub mod Table
pub mod RuleLaws
