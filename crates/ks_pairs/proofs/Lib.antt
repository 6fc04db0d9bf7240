mod Lists
mod Shifts
mod Within
