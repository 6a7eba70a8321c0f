pub mod Multinomial
