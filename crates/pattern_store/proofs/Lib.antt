mod Places
mod Literals
mod Transfer
