mod Shorter
