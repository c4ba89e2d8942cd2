mod Members
mod Greatest
mod Degrees
mod PowerCoefficients
