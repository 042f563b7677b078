-- What the code of a line knows of the model.
pub mod BytesCode
pub mod LineCode
