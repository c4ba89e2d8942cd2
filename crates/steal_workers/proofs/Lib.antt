mod Continuing
