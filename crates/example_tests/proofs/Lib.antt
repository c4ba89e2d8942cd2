mod Rooting
