pub mod SheetLaws
