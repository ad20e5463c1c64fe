pub mod Server
pub mod ReplyKind
pub mod Slots
pub mod Text
pub mod TextLaws
pub mod internal
