mod NodeLists
mod Counts
mod KeptEntries
mod Steps
mod KeptSteps
mod Settle
mod RootLists
