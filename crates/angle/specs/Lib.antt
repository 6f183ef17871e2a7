-- What the code adds before it divides.
pub mod Half
