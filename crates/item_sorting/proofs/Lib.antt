pub mod KeyOrders
pub mod Rows
pub mod StableSorts
