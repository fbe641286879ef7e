mod Sifting
mod Placing
