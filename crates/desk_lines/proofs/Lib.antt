-- Laws of lines answered: LineLaws of the lines of a text and the line at a place, PrintLaws of the answers of lines, ThroughLaws of a step and of steps one after the
-- other. TurnLaws is what the proof of a step's loop knows.
pub mod LineLaws
pub mod PrintLaws
pub mod ThroughLaws
pub mod TurnLaws
