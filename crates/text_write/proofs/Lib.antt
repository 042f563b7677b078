-- What the code of `write` knows of the model and of the promise.
pub mod LengthCode
pub mod PutCode
pub mod WriteCode
