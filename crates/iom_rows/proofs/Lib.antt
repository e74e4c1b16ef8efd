mod Uncached
