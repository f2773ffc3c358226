pub mod CounterParts
pub mod LayerWords
pub mod Layers
pub mod Slots
pub mod SoundLayers
pub mod SoundSlots
