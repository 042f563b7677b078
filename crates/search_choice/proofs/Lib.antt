-- What the proofs of the functions know: ChoiceCode of one contact and of the lowest that leads, ChooseCode of the chain worked back.
mod ChoiceCode
mod ChooseCode
