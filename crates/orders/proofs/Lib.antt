pub mod InOrder
pub mod SheetInOrder
pub mod ReadInOrder
