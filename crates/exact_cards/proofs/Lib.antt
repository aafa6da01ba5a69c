mod OwnCards
mod FirstRows
mod SideBySide
mod AllPlanned
mod Exact
