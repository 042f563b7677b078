-- What the proofs of the functions that find a light time know.
mod GatherCode
mod LightsCode
mod PassCode
mod SharedCode
