-- What the code that takes rows knows of the model.
pub mod JudgeCode
pub mod TablesCode
