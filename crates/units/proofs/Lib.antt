pub mod AskLaws
-- Laws of the refusals, for the crates above: RefusalLaws.
pub mod RefusalLaws
