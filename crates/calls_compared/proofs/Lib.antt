-- The laws of 'Earlier, smaller, more'. Theorems holds what the request asks for, of the calls; Served the same of a plan as it serves an ask. Easier says
-- what an ask that is no harder keeps, Rows what a plan with further contacts has, Calls what a call with nothing wrong answers.
pub mod Calls
pub mod Easier
pub mod Rows
pub mod Served
pub mod Theorems
