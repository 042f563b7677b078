-- What the reader knows of the model.
pub mod StepCode
