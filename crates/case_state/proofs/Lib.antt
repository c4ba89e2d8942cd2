mod Branching
mod Rooting
mod TailSteps
