mod LeadingTerms
mod Ordered
mod Due
mod LeadingBack
mod Reducing
mod Running
mod Dying
