-- What the proofs of the functions know.
mod AsksCode
mod RefusingCode
