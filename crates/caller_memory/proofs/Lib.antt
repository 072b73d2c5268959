mod Cell
mod Cuts
mod Taken
