-- What the code of `read` knows of the model and of the promise.
pub mod CallCode
