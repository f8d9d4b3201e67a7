mod Texts
mod Printable
