pub mod Access
pub mod Owes
pub mod OwedRows
pub mod Messages
pub mod Said
pub mod Sent
pub mod OwedLists
pub mod Offers
pub mod Opened
pub mod Fitting
pub mod RunsFit
pub mod Transit
pub mod Kept
pub mod Searches
pub mod Stands
pub mod First
mod Firsts
pub mod Quiet
pub mod Places
pub mod Changed
pub mod Counted
mod Counting
pub mod Decided
pub mod Numbers
pub mod Tabled
pub mod Wholes
pub mod Logged
mod Starting
mod FirstHeld
pub mod Pulls
mod Rowing
mod Speaking
pub mod Lists
pub mod ListsKept
pub mod ListsMade
pub mod Play
pub mod OneAnswer
mod OneTable
mod StableTables
pub mod PullThere
pub mod AnswersThere
pub mod Listed
pub mod Composed
mod Paths
pub mod Under
pub mod StoredKept
pub mod Receiving
pub mod StoredReads
