pub mod Epochs
pub mod Laws
pub mod Lists
pub mod Numbers
pub mod Order
pub mod Results
pub mod Stamps
pub mod Words
