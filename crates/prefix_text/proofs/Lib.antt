pub mod FormLaws
pub mod LineLaws
pub mod Printed
pub mod ReadBack
pub mod TextLaws
